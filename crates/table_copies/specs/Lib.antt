pub mod Firsts
pub mod Places
pub mod Rows
pub mod Copies
pub mod Digits
pub mod Outputs
pub mod Told
