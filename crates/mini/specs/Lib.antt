pub mod MiniA
pub mod Toggle
pub mod Spoken
pub mod ToggleCells
