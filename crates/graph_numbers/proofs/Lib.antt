pub mod Lists
pub mod Numbered
pub mod Sorted
pub mod Whole
