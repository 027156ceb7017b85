-- What is proved of the roots of a state.
pub mod Theorems
