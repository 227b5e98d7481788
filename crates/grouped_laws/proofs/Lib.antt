pub mod Stable
pub mod SortedBy
