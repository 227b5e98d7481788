pub mod Links
pub mod Below
