-- What the contracts of `nmea_sentence` cite.
pub mod Fields
pub mod Digits
pub mod Judge
pub mod Private
