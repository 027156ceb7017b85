-- What a reader must believe of the cubic: its definitions, and what every engine promises.
pub mod Cubic
pub mod Promise
pub mod Sides
pub mod Bounded
