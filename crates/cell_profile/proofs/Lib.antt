pub mod KindNames
pub mod KindShapes
pub mod Refused
