-- Laws of a setting's text, and of text pushed part by part. Assumes nothing.
pub mod TextLaws
pub mod PushLaws
