pub mod Toggle
pub mod Exchange
