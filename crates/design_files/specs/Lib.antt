pub mod Names
pub mod Parsed
pub mod Designs
