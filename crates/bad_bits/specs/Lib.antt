pub mod Numbered
pub mod Views
pub mod Placed
pub mod Least
pub mod Found
pub mod Listed
