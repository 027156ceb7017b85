-- The laws that belong to no one function.
pub mod Going
pub mod Bounds
pub mod Sections
pub mod Whole
pub mod Counts
pub mod Theorems
