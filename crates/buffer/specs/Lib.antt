-- What the contracts of `buffer` cite.
pub mod Buffer
