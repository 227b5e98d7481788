pub mod Found
pub mod Lined
pub mod LeastMux
pub mod Differing
