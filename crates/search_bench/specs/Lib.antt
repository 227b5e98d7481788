pub mod Grids
pub mod Nets
