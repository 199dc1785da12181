-- What the contracts of `nmea_plars` cite.
pub mod Plars
