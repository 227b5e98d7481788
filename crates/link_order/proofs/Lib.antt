pub mod Stable
pub mod Once
