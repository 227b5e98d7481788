pub mod Members
pub mod Firsts
pub mod OrMemory
pub mod Rose
pub mod Appended
pub mod Ordered
pub mod Twice
