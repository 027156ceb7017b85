-- What a reader must believe of a buffer: what it is to put a text into it.
pub mod Puts
