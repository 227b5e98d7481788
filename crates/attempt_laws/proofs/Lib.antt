pub mod Orders
pub mod WithoutLines
pub mod Starts
pub mod Outcomes
pub mod Steps
pub mod Runs
pub mod SafeDesign
