pub mod First
mod Passing
