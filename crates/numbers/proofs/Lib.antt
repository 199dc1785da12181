-- What the proofs of several functions use, and the laws of numbers as bytes.
pub mod Difference
pub mod LowBytes
pub mod Part
pub mod Signed
pub mod Size
pub mod Wrap
