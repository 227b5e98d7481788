pub mod Limits
pub mod Domains
pub mod Stored
