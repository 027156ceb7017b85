-- What a reader must believe of states: what is told of one, and what a call does to the book.
pub mod Replies
pub mod Book
pub mod Shared
pub mod Inside
