-- What the proofs of the functions use, and what is proved of the promise beside that the code keeps it.
pub mod Room
pub mod Way
pub mod Theorems
