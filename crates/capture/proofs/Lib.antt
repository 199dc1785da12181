-- Laws of a bench file's entries, and the proofs of the functions.
pub mod EntryLaws
