pub mod Feeds
pub mod Inputs
pub mod Fields
pub mod Copies
pub mod Outputs
