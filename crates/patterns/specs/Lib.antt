pub mod Bits
pub mod Fits
pub mod Written
