pub mod Sides
pub mod Kinds
pub mod Renamed
pub mod Devices
