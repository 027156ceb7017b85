-- The laws that belong to no one function. Each file cites only files that are named above it.
pub mod Rounding
pub mod Table
pub mod Kelvins
pub mod Lines
pub mod Heats
pub mod Telling
pub mod Theorems
