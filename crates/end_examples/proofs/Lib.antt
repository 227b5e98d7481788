pub mod Conditions
pub mod Blocked
pub mod Sites
pub mod Moves
