pub mod Alike
pub mod Ends
pub mod Numbered
pub mod CrossedRun
