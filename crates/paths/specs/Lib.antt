pub mod Roads
pub mod Paths
pub mod Cuts
pub mod Wiring
