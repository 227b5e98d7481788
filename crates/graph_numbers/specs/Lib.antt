pub mod Numbers
pub mod StandFor
pub mod Graphs
pub mod Statements
