-- What the contracts of `capture` cite.
pub mod Write
pub mod Entry
