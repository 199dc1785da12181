-- The proofs of demand 3, of what follows from it for the same bytes in other pieces, and of document 01's numbers.
pub mod Chunking
pub mod Demand3Proof
pub mod NumbersProof
pub mod View
