-- The laws of the table. Each file cites only files that are named above it.
pub mod Tests
pub mod Spans
pub mod Roots
pub mod Answers
pub mod Refusals
pub mod Theorems
