-- The laws of any list of checks, and the way back from a number to its refusal.
pub mod Lists
pub mod Theorems
