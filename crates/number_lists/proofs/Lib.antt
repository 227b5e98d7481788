pub mod Views
pub mod Within
pub mod Given
