-- The proofs of demand 2 for the exported functions.
pub mod Shown
pub mod Rows
pub mod ItemsProof
pub mod WritesLaws
pub mod FramesWritten
pub mod FramesRewritten
pub mod SettingsProof
pub mod GyroProof
