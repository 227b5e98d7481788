pub mod Counts
pub mod Reads
pub mod Ends
pub mod Causes
