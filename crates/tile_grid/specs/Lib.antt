pub mod Small
pub mod Faults
pub mod Capped
pub mod Placed
