-- What must be believed of a reader that is kept as numbers: which number says what.
pub mod Numbers
