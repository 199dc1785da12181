-- Laws of answers and refusal numbers.
pub mod AnswerLaws
