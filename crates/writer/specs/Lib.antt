-- What a reader must believe of the writer: what comes back, and what the buffer then holds. Inside says what the private functions ask and promise.
pub mod Replies
pub mod Inside
