pub mod Types
pub mod TileNames
