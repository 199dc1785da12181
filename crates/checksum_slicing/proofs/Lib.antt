-- Laws that the functions' proofs cite.
pub mod BlockLaws
pub mod StepLaws
