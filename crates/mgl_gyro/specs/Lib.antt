-- What the contracts of `mgl_gyro` cite.
pub mod Gyro
