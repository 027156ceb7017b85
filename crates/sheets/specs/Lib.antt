-- What a reader must believe of sheets: how one is written, and how bytes are read line by line. Digests and Lines say what the steps of
-- reading a line compute, and proofs/Meets.antt that this is the same.
pub mod Grammar
pub mod Numerals
pub mod Reading
pub mod Digests
pub mod Lines
