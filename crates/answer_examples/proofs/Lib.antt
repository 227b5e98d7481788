pub mod Toggle
