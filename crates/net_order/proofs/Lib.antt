pub mod Linked
pub mod BothEnds
pub mod Few
pub mod ReadTables
pub mod TableOrder
pub mod Loops
pub mod Ordered
