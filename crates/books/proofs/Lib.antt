-- What is proved of the book beside the functions' contracts. Each file cites only files that are named above it.
pub mod Slots
pub mod Holding
pub mod Theorems
pub mod Before
