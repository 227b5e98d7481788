pub mod InTurn
pub mod Readings
pub mod Seen
