-- What the contracts of `onflight` cite.
pub mod Status
pub mod Time
pub mod Private
