pub mod Marks
pub mod Gathering
pub mod Answers
