pub mod Conditions
pub mod ToggleMeets
