-- What the contracts of `nmea_rmc` cite.
pub mod Angle
pub mod Rmc
