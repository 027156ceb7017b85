-- What a reader must believe of refusals: what "the first that applies" means of any list of checks, and the number of each refusal.
pub mod Checks
pub mod Numbers
