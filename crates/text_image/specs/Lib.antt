pub mod Faults
pub mod Images
pub mod Statements
pub mod Written
