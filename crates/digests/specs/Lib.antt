-- What the private functions promise. What a digest is, the crate `sheets` says.
pub mod Inside
