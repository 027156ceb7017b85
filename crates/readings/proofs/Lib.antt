-- The laws of the answers. Each file cites only files that are named above it.
pub mod Figures
pub mod Answers
pub mod Nexts
pub mod Theorems
pub mod Sections
pub mod Full
