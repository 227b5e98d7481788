pub mod Moments
pub mod Begun
