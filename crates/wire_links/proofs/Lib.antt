pub mod Filtered
pub mod Linked
pub mod Routed
pub mod Finding
