pub mod Numbered
pub mod CrossedRun
