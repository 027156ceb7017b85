-- What a reader must believe of the answers about a sheet: the figures of each, and which of them any bytes at all are owed.
pub mod Figures
pub mod Readers
pub mod Replies
