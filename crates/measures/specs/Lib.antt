-- What a reader must believe of lists that are to be written: what they are, what they are checked for, and what is told of them. How a sheet is written is
-- said by the grammar of `sheets`. Inside says what the private functions ask and promise.
pub mod Columns
pub mod Checks
pub mod Replies
pub mod Inside
