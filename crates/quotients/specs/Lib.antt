-- What a reader must believe of quotients: what one is.
pub mod Quotient
