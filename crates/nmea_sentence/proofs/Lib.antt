-- What the proofs of `nmea_sentence` use.
pub mod FieldLaws
pub mod DigitLaws
pub mod JudgeLaws
pub mod JoinLaws
pub mod FromLaws
pub mod CountLaws
