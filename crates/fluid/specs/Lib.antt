-- What a reader must believe of the fluids: their figures, what a state is checked for, the way from a state to the cubic, and what the public calls promise.
pub mod Figures
pub mod Checks
pub mod Reduced
pub mod Promise
pub mod Inside
