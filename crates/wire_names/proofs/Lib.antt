pub mod Coded
pub mod Places
pub mod Kept
pub mod Numbers
pub mod SlotPlaces
