-- What the contracts of `tally` cite, and what they come to for a whole capture.
pub mod Step
pub mod Whole
