-- What the contracts of `nmea_plars_writer` cite.
pub mod Text
