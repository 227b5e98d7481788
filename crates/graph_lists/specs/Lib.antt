pub mod Places
pub mod ArcLists
pub mod FixedLists
pub mod BitLists
