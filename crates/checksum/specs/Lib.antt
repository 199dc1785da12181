-- What the contracts of `checksum` cite.
pub mod Crc
pub mod Fletcher
pub mod Private
pub mod Xor
