-- Laws of the field functions, and their proofs.
pub mod SizeLaws
pub mod FuelLaws
