pub mod Texts
pub mod Routes
pub mod Alike
pub mod Lines
pub mod Moves
pub mod Candidates
pub mod Answers
