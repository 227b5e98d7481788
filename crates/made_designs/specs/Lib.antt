pub mod Blocks
pub mod BlockSides
pub mod Made
