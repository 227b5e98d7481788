pub mod FirstPiece
pub mod Joined
pub mod Blanks
pub mod LineParts
pub mod WordParts
pub mod Slices
pub mod Printed
