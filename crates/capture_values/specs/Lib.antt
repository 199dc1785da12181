-- What the contracts of `capture_values` cite.
pub mod Values
pub mod FieldFunctions
