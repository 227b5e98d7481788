pub mod Errors
pub mod Answers
pub mod Reached
pub mod Forms
