pub mod Numbered
pub mod Statements
