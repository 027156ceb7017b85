-- The laws that belong to no one function.
pub mod Printed
pub mod Theorems
