mod Adding
pub mod Known
pub mod Standing
