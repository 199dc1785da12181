-- The proofs of demands 1 and 3 for a reader that is lent bytes.
pub mod LentDemand1Proof
pub mod LentDemand3Proof
