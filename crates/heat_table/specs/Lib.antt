-- What a reader must believe of the heat table: exact fractions, an entry, the line between two of them, what comes back, and when. Inside says what the
-- private functions promise.
pub mod Fractions
pub mod Entries
pub mod Line
pub mod Replies
pub mod Inside
