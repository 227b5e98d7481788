pub mod KeptBits
pub mod Records
