-- The laws that belong to no one function. Each file cites only files that are named above it.
pub mod Filling
pub mod Figures
pub mod Rows
pub mod Theorems
pub mod Worked
