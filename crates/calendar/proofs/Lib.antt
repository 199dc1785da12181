-- What the proofs of several functions use.
pub mod Years
pub mod Months
pub mod Answers
pub mod Shift
