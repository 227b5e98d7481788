pub mod ArcTable
pub mod Kept
