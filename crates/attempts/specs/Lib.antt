pub mod PinOrder
pub mod Wires
pub mod Turns
pub mod Moves
pub mod Jobs
pub mod Starts
pub mod Candidates
pub mod Attempts
