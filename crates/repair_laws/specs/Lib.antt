pub mod Ready
pub mod Kept
pub mod Effects
