pub mod Filled
pub mod Rounds
pub mod Connected
pub mod Trees
