pub mod Texts
pub mod Databases
