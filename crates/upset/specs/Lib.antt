pub mod Configured
pub mod After
pub mod Effect
pub mod Safe
pub mod Roots
