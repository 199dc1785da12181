-- Laws of bodies, each proved once over the format; and the proofs of the functions.
pub mod BodyLaws
pub mod JudgeLaws
