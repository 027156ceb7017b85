-- The laws that belong to no one function. Each file cites only files that are named above it.
pub mod Counts
pub mod Gathered
pub mod Theorems
pub mod Sections
