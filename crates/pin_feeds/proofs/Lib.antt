pub mod Writing
pub mod Telling
pub mod Least
pub mod Equal
pub mod Connected
