pub mod MoreLines
pub mod Named
pub mod PathsKept
pub mod RestKept
