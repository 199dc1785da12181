-- Laws of the set bits; and the proofs of the functions.
pub mod BitLaws
