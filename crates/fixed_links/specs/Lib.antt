pub mod Slots
pub mod Tiles
pub mod Statements
