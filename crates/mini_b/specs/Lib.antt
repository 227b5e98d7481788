pub mod MiniB
pub mod Corridor
pub mod CorridorCells
