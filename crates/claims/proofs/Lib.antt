-- What the proofs of the functions use, and what is proved of claims beside their contract.
pub mod Verdicts
pub mod Lists
pub mod Theorems
pub mod Sides
