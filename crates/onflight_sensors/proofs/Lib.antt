-- Laws of the ratios; and the proofs of the functions.
pub mod RatioLaws
