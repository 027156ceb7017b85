-- What the proofs of several functions use, and what is proved of the boundary beside its contracts.
pub mod Theorems
pub mod Nexts
pub mod Parts
pub mod Reports
