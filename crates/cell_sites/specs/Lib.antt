pub mod Names
pub mod Ordered
pub mod Pairs
pub mod Sides
pub mod Rows
