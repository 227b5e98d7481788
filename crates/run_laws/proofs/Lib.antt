pub mod Files
pub mod Hardened
