-- What the proofs of the functions use, and what is proved beside the contracts.
pub mod Theorems
