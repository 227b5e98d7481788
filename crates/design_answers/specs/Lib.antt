pub mod BadBits
pub mod Reported
pub mod Outcomes
pub mod DriversOutcomes
pub mod RunOutcomes
pub mod Headline
