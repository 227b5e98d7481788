pub mod BitRows
