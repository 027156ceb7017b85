-- What is proved of the promise beside that the code keeps it.
pub mod Theorems
