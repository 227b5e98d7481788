pub mod Limits
pub mod Database
pub mod Grid
pub mod Profile
pub mod Side
pub mod Config
pub mod Ripping
