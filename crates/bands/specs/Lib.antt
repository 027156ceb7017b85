-- What a reader must believe of a band: by what a may be scaled, what comes back, and when. Inside says what the private functions ask and promise.
pub mod Scalings
pub mod Replies
pub mod Inside
