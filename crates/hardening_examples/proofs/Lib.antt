pub mod CrossedMeets
pub mod Hardened
pub mod Written
pub mod AcceptedFiles
