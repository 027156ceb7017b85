-- What the proofs of the functions use, and what is proved of lists that are to be written.
pub mod Numbers
pub mod Sections
pub mod Lengths
pub mod Telling
pub mod Measured
pub mod Theorems
