-- What a reader must believe of the searches beside the definitions of `cubic`: what their public calls promise.
pub mod Promise
