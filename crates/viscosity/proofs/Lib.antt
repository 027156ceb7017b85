-- What the proofs of several functions use, and what is proved of the factor beside its contract.
pub mod Halves
pub mod Growth
pub mod Squares
pub mod Room
pub mod Factors
pub mod Theorems
