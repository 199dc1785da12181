-- What the proofs of `nmea_rmc` use.
pub mod AngleLaws
pub mod RmcLaws
