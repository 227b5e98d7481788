pub mod MuxOrder
pub mod ArcRows
pub mod BitRows
