-- Laws that the functions' proofs cite, and that a reader's bytes are read back as the reader.
pub mod BytesLaws
pub mod LentLaws
