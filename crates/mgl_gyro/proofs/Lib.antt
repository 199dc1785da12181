-- Laws of the gyro numbers.
pub mod GyroLaws
