pub mod PinFeeds
pub mod Outputs
pub mod Unnamed
pub mod LeastUnnamed
pub mod Told
