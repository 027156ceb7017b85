-- What a reader must believe of the boundary: which of a reply's figures lie where in what the caller lent.
pub mod Versions
pub mod Walks
pub mod Bands
pub mod Claims
pub mod Heats
pub mod HeatTables
pub mod Viscosities
pub mod Sheets
pub mod Nexts
pub mod Parts
pub mod Reports
pub mod Writes
