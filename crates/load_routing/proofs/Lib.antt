pub mod Checked
pub mod Imaged
pub mod Refusing
