-- What is proved of the promises beside that the code keeps them.
pub mod Ends
pub mod Theorems
