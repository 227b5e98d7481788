pub mod Live
pub mod Joined
pub mod Feeding
pub mod Opened
