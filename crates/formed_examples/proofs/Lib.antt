pub mod Texts
pub mod Databases
pub mod Read
