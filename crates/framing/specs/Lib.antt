-- What the contracts of `framing` cite: the formats, their shapes and frames, and the two readings of a line.
pub mod Format
pub mod Frame
pub mod Growth
pub mod FindStart
pub mod FrameRun
pub mod Meaning
pub mod Mgl
pub mod Nmea
pub mod Onflight
pub mod Private
pub mod Reading
pub mod Rules
pub mod Shape
