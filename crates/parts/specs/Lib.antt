-- What a reader must believe of sheets that arrive in parts: what one byte more does, and what a call tells of many.
pub mod Bytes
pub mod Takes
pub mod Served
pub mod Inside
