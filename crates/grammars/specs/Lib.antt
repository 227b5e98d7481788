pub mod Rows
pub mod BitsDb
pub mod RowByRow
