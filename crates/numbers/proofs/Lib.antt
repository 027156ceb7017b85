-- Laws of whole numbers that belong to no subject.
pub mod Search
pub mod Squares
pub mod Quotients
