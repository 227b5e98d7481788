mod OfTypes
pub mod Standing
pub mod Tiles
