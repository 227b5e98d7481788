pub mod Tests
pub mod TwoTiles
pub mod RippedSlice
