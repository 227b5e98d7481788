pub mod Whole
pub mod Words
pub mod Chosen
pub mod Ended
pub mod Checking
