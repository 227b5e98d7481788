pub mod Plain
pub mod Statements
