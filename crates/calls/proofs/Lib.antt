-- What is proved of the calls beside their contracts.
pub mod Theorems
