-- The marked cases (docs/FORMATS.md, "Marked cases").
pub mod Rows
