-- What a reader must believe of claims: when one stands and what it is checked for, how five lists make a list of them, what comes back, and when. Inside
-- says what the private functions ask and promise.
pub mod Claims
pub mod Lists
pub mod Replies
pub mod Inside
