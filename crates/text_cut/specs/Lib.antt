pub mod Lent
pub mod Known
