pub mod Faults
pub mod Known
pub mod KnownEnds
pub mod Heads
pub mod NamedBits
pub mod Kinds
pub mod Readings
