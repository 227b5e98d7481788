pub mod SafeToggle
pub mod MovedToggle
pub mod TwoTiles
pub mod SiteOrder
