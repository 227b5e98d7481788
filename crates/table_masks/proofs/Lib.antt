pub mod Bits
pub mod Reached
pub mod Tied
pub mod Fed
pub mod Row
pub mod LeastTable
