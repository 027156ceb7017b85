-- What a reader must believe of the engine beside the definitions of `cubic`: what its public call promises.
pub mod Promise
