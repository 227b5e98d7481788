pub mod TypeBits
