-- What the contracts of `onflight_sensors` cite, and what their definitions mean.
pub mod Sensor
pub mod Position
pub mod Ratio
pub mod Meaning
