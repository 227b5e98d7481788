pub mod Keeping
pub mod Stopping
pub mod Answered
pub mod Reached
