pub mod Sizes
pub mod Statements
