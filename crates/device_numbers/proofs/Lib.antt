pub mod MuxArcs
pub mod Tiles
