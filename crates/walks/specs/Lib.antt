-- What a reader must believe of the walk to a state's gas root: when it is cut short, what comes back, and when. Inside says what a private function
-- promises.
pub mod Checks
pub mod Replies
pub mod Inside
