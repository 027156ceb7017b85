-- The laws that belong to no one function. Each file cites only files that are named above it.
pub mod Squares
pub mod Digits
pub mod Pairs
pub mod Paper
pub mod Worked
pub mod Theorems
