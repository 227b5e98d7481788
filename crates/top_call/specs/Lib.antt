pub mod Replies
pub mod Printed
pub mod Commands
pub mod Longest
