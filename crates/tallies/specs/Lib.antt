-- What a reader must believe of a report: what its figures are of a section's replies. Steps says what adding one reply
-- computes, and Rows in which numbers.
pub mod Entries
pub mod Steps
pub mod Rows
