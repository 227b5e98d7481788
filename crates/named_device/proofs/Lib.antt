pub mod ArcNames
pub mod OfTypes
pub mod Places
