pub mod Order
pub mod Slices
pub mod Kept
pub mod Pinned
pub mod Telling
