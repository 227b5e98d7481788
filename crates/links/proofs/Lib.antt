pub mod Members
pub mod Walks
pub mod Below
pub mod Feeds
