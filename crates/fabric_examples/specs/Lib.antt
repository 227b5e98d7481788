pub mod Muxes
pub mod Options
pub mod ToggleLinks
pub mod Faulty
pub mod Feeds
