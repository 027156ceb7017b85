-- The laws of the definitions. Each file cites only files that are named above it.
pub mod Digits
pub mod Texts
pub mod Numerals
pub mod Scans
pub mod Splits
pub mod Longest
pub mod Meets
pub mod Walks
pub mod Existence
pub mod Passed
pub mod Fluids
pub mod Written
pub mod Readable
pub mod Once
pub mod Faults
pub mod Theorems
