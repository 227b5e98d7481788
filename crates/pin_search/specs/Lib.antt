pub mod Labels
pub mod Searches
pub mod Fronts
