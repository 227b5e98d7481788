pub mod Numbered
pub mod RowsBy
