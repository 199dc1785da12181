-- What the contracts of `mgl` cite.
pub mod Header
pub mod Gps
pub mod Fuel
pub mod Clock
