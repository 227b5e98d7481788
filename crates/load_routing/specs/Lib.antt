pub mod Refused
pub mod Wires
pub mod Routing
pub mod Standing
