pub mod Touched
pub mod Falling
pub mod Lowering
pub mod Taking
pub mod Stepping
pub mod Found
pub mod Walking
pub mod Clearing
