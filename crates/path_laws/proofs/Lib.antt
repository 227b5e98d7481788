pub mod Leading
pub mod UpTo
pub mod Sorted
pub mod Search
pub mod Numbered
