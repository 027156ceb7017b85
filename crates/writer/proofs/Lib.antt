-- What the proofs of the functions use, and what is proved of the writer beside its contract.
pub mod Lines
pub mod Sheets
pub mod Telling
pub mod Writing
pub mod Back
pub mod Theorems
