pub mod Toggles
pub mod Changed
pub mod Refused
pub mod CorridorRefused
