-- The laws that belong to no one function.
pub mod Lists
pub mod Reaching
pub mod Adding
pub mod Theorems
