pub mod Live
pub mod Refused
