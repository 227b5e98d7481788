pub mod OfTypes
