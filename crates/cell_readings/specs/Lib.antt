pub mod Errors
pub mod First
pub mod Roles
