pub mod Roots
pub mod Upstream
pub mod Decide
pub mod Masked
pub mod Unflipped
pub mod Plain
pub mod PlainDomains
