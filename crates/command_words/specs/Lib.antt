pub mod Rips
pub mod Kinds
pub mod Views
pub mod Pairs
