pub mod Leasts
pub mod TouchedCells
pub mod Placing
pub mod Single
pub mod Bounds
pub mod Pairing
pub mod Listing
pub mod Laws
