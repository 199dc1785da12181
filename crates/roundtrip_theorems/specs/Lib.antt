-- What the round trips say: of whole frames, of PLARS settings, of gyro numbers, and of written frames back to back.
pub mod Exactly
pub mod FrameTrips
pub mod SettingTrips
pub mod GyroTrips
pub mod BackToBack
