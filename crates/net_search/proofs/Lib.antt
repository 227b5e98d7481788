pub mod Growing
pub mod Gathered
pub mod Sorted
pub mod Cutting
pub mod Cleared
