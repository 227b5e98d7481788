pub mod Contests
