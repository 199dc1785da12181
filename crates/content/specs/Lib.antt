-- What the contracts of `content` cite.
pub mod Body
pub mod Shared
