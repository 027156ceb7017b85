-- What the proofs of the functions use, and what is proved of the walk beside its contract.
pub mod Walking
pub mod Theorems
