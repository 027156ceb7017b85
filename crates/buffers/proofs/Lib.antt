-- The laws that belong to no one function. Each file cites only files that are named above it.
pub mod Digits
pub mod Holding
pub mod Underway
pub mod Theorems
