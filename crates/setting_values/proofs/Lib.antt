mod WordBits
pub mod Tied
