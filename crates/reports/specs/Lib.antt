-- What a reader must believe of a report: what is told of a whole sheet, and what a part of one does.
pub mod Sheets
pub mod Parts
