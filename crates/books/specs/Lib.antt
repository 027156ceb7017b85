-- What a reader must believe of the book: what its slots say, what a call leaves in it, and when there is no such slot.
pub mod Layouts
pub mod Bytes
pub mod Promise
