-- What a reader must believe of the excess viscosity factor: the printed quartic and its rounding, the factor, what comes back, and when. Inside
-- says what the private functions promise.
pub mod Quartic
pub mod Factor
pub mod Replies
pub mod Inside
