pub mod InTiles
pub mod RowsMore
