pub mod Corridors
pub mod Starting
pub mod Crossed
