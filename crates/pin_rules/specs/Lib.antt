pub mod Owners
pub mod ReadParts
pub mod Rules
pub mod Flags
pub mod Least
pub mod Voters
pub mod Unclocked
