-- The laws that belong to no one function.
pub mod Numbers
pub mod Lines
pub mod Theorems
