-- What a reader must believe of densities: the quotient, and what the public call promises.
pub mod Densities
pub mod Promise
