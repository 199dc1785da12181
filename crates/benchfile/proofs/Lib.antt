-- Laws of the table of contents of a bench file, and of the text of a sheet. Assumes nothing.
pub mod TocLaws
pub mod SheetLaws
