pub mod Named
pub mod Known
pub mod Feeding
pub mod Steps
