-- What a reader must believe of a line of output: how it is written, and what it is to hold one.
pub mod Texts
pub mod Buffer
