pub mod LentNames
pub mod Parts
pub mod Kept
pub mod Codes
pub mod Slots
