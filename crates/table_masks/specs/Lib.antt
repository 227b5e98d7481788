pub mod Masking
pub mod Pins
pub mod Reaching
pub mod Least
