-- The laws that belong to no one function.
pub mod Surveys
pub mod Answers
