-- What the proofs of the functions use, and what is proved of a band beside its contract.
pub mod Scaling
pub mod Banding
pub mod Theorems
