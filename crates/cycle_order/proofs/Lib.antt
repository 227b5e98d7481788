pub mod Marking
pub mod Turns
pub mod Trying
pub mod Rowed
pub mod Pigeons
pub mod Listing
pub mod Ordering
