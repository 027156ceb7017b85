-- What a reader must believe of a report as numbers: which figure is which number.
pub mod Rows
