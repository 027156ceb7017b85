-- The laws of the definitions. Each file cites only files that are named above it.
pub mod Bytes
pub mod Texts
pub mod Stretches
pub mod Turns
pub mod Whole
pub mod Longer
pub mod Calls
pub mod Replies
pub mod Theorems
