pub mod Insertion
pub mod PlainGraph
pub mod PlainAgree
pub mod Stands
pub mod Written
