pub mod Asked
pub mod Built
pub mod Named
pub mod Lent
