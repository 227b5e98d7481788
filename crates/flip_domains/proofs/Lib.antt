pub mod Gaining
pub mod Flipping
