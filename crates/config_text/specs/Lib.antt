pub mod Faults
pub mod Sayings
pub mod LineByLine
pub mod Known
pub mod Entries
pub mod Empty
pub mod Ascending
