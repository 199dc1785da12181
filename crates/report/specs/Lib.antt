-- What is printed of a bench file; what the contracts of `report` cite; and what they come to for a whole file.
pub mod Sheets
pub mod Step
pub mod Printed
