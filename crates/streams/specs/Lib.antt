-- What must be believed of reading and writing. What the system does with the bytes no contract can say.
pub mod Faults
pub mod Streams
