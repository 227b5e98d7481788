pub mod Commands
pub mod Options
pub mod BitWords
pub mod Readings
pub mod Examples
