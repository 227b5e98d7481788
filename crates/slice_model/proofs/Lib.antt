pub mod Walking
mod AtSites
mod InTurn
mod Ending
pub mod Settings
mod SmallWords
pub mod OtherPads
