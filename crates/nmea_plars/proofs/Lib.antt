-- What the proofs of `nmea_plars` use.
pub mod PlarsLaws
