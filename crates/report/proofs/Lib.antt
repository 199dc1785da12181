-- Laws that the functions' proofs cite, and the theorem of a whole file.
pub mod StepLaws
pub mod TextLaws
pub mod AgreeLaws
pub mod BodyLaws
pub mod Stages
pub mod PrintedProof
