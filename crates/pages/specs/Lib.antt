-- What a reader must believe of the page: how a quoted text is bytes, how a line is laid out in columns, and which lines there are. Filling says how it is put
-- together.
pub mod Quoted
pub mod Columns
pub mod Pages
pub mod Filling
