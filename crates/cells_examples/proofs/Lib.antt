pub mod CorridorRead
