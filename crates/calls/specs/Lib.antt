-- What a reader must believe of the calls on a state: what each is checked for beside its state, and what it does to the book.
pub mod Checks
pub mod Promise
