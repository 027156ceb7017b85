-- The laws that belong to no one function. Each file cites only files that are named above it.
pub mod Answering
pub mod Determined
pub mod Existence
pub mod Sharing
pub mod Theorems
pub mod Walks
pub mod Bands
pub mod Finer
