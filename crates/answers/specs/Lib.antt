pub mod Parts
pub mod Refusals
pub mod Texts
pub mod Drivers
pub mod Answers
