pub mod Checks
pub mod Routed
pub mod Inputs
