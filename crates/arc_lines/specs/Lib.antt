pub mod LineArcs
pub mod Differing
