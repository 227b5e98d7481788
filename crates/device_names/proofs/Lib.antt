pub mod ByType
pub mod Lists
pub mod SameNames
