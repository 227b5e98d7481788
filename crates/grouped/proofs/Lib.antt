pub mod KeyCounts
pub mod Placed
pub mod Cut
pub mod Sorted
