pub mod Fed
pub mod Taken
pub mod Differing
pub mod Pads
