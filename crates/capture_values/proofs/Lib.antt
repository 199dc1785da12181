-- Laws of rows and tables of values, and the proofs of the functions.
pub mod RowLaws
pub mod TableLaws
