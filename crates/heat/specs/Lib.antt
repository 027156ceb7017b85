-- What a reader must believe of hydrogen's ideal heat capacity: the printed table, its doubles, the order of operations, what comes back, and when.
pub mod Printed
pub mod Table
pub mod Evaluation
pub mod Replies
pub mod Promise
pub mod Points
pub mod Inside
