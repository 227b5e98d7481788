pub mod MuxBits
pub mod Digits
pub mod Numbered
