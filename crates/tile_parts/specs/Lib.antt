pub mod Slots
pub mod Statements
