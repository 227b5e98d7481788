pub mod CellViews
pub mod PartViews
