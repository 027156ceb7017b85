-- What is proved of replies.
pub mod Theorems
