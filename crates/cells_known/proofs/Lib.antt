pub mod Sums
pub mod Counting
pub mod Names
pub mod Apart
