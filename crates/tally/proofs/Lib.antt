-- Laws that the functions' proofs cite, and the theorem of a whole capture.
pub mod StepLaws
pub mod WholeProof
