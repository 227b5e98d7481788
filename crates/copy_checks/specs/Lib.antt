pub mod Listed
pub mod Given
pub mod Pads
pub mod Unlike
