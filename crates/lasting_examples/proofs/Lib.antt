pub mod Corridor
