pub mod Fronts
pub mod HeldNames
