pub mod Order
pub mod Standing
pub mod Roads
pub mod Made
