pub mod Patterns
pub mod Names
pub mod Entries
pub mod Ends
pub mod Rows
