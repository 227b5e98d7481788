pub mod Listed
pub mod Pairs
pub mod BitsOf
pub mod Fewer
