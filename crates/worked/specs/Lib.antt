-- What a reader must believe of the worked points: what a row of the table says, and the table.
pub mod Rows
pub mod Table
