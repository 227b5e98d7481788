pub mod EqualSites
pub mod MoveFaults
pub mod Tested
