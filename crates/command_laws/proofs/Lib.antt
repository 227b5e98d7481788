pub mod Found
pub mod Harden
pub mod Run
