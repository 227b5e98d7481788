pub mod PlainParts
pub mod PlainUsable
pub mod PlainCuts
pub mod PlainPaths
pub mod PlainStarts
