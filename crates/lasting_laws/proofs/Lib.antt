pub mod Lasting
pub mod Written
