pub mod Texts
pub mod Faulty
pub mod OneAttempt
