-- What private functions of `checksum_slicing` ask and promise; the public one cites `checksum`'s definition alone.
pub mod Private
