pub mod Alike
pub mod Grid
pub mod Standing
pub mod Turns
pub mod Unnamed
