-- What demands 1 and 3 come to for a reader that is lent bytes.
pub mod Lists
pub mod Demands
