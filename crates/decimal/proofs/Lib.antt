-- Laws of numbers in decimal digits. Assumes nothing.
pub mod DecimalLaws
pub mod DigitTexts
