-- What a reader must believe of the program: which lines it prints for a sheet. Buffer says how much room they need, and Inside what the private
-- function promises.
pub mod Prints
pub mod Buffer
pub mod Inside
