-- Laws of bytes put into a buffer, and of text. Assumes nothing.
pub mod BufferLaws
pub mod TextLaws
