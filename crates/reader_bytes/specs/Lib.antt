-- What the contracts of `reader_bytes` cite: a reader as lent bytes, and a call on it.
pub mod Bytes
pub mod Calls
pub mod Private
