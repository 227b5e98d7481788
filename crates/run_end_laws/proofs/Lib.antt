pub mod Untouched
pub mod Statuses
pub mod Refused
pub mod Reading
pub mod Worked
