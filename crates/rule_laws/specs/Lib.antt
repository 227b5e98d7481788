pub mod Exactly
pub mod Statements
