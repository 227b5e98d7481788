pub mod Borrowed
pub mod OfTiles
pub mod Zipped
