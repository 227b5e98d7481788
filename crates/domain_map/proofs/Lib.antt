pub mod Marked
pub mod Labelled
