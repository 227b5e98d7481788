pub mod Placings
pub mod Side
pub mod SidePrint
