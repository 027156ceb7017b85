-- What a reader must believe of square roots: what one is. Inside says what the private functions ask and promise.
pub mod SquareRoot
pub mod Inside
