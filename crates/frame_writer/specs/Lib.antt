-- What the contracts of `frame_writer` cite.
pub mod Frames
pub mod Output
