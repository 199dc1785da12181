-- Laws that the proofs of several functions use.
pub mod CrcLaws
pub mod Fold
pub mod Table
pub mod XorLaws
