-- Laws of the frames that the writers make; and the proofs of the functions.
pub mod WriterLaws
