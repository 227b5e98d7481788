pub mod CrossedDesign
pub mod CrossedFiles
