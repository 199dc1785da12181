-- What the contracts of `benchfile` cite.
pub mod Toc
pub mod Sheet
