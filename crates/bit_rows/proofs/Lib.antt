pub mod DigitOrder
pub mod Rising
pub mod Numbering
pub mod Inverse
pub mod Found
