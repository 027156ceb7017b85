-- The laws that belong to no one function. Each file cites only files that are named above it.
pub mod Limits
pub mod Ranges
pub mod Decided
pub mod Exactly
pub mod Points
pub mod Sizes
pub mod Finite
pub mod Constant
pub mod Theorems
