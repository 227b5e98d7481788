pub mod Noting
pub mod Beginning
pub mod Spreading
pub mod Ended
