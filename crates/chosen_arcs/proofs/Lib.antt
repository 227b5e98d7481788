pub mod Placing
pub mod Longest
