-- Laws that the functions' proofs cite.
pub mod CallLaws
pub mod ReadClosingLaws
pub mod HeldLaws
pub mod JoinLaws
pub mod RefusalLaws
pub mod InPlaceLaws
pub mod StepLaws
pub mod ReadLineLaws
