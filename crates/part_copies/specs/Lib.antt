pub mod Numbered
pub mod Keys
