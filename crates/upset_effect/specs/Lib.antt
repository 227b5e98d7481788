pub mod Passing
pub mod Reach
pub mod Driven
pub mod Found
pub mod Effects
