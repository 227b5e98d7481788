pub mod Files
pub mod Sink
pub mod Whole
pub mod Held
pub mod Calls
pub mod Memory
