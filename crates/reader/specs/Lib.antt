-- What the contracts of `reader` cite: a reader, its refusals, and what a call on it gives.
pub mod Calls
pub mod InPlace
pub mod Private
pub mod Refusal
pub mod State
