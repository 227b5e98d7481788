pub mod Keys
pub mod Gathered
pub mod Named
pub mod Errors
pub mod Slots
