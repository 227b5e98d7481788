pub mod Gathering
pub mod Standing
pub mod Longest
