pub mod Lasts
pub mod Connections
pub mod Readings
pub mod RowLemmas
