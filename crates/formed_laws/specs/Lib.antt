pub mod SideRead
pub mod ProfileRead
pub mod Readers
pub mod Designs
pub mod DatabaseRead
