pub mod Words
pub mod Image
