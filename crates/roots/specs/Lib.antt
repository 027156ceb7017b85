-- What a reader must believe of the roots of a state: what the public call promises.
pub mod Promise
