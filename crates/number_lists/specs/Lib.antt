pub mod Lists
pub mod Routed
pub mod Statements
