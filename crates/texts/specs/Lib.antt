pub mod Pieces
pub mod Lines
pub mod Words
pub mod Parts
pub mod Numbers
pub mod Names
pub mod PatternBits
pub mod Printing
