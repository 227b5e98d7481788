pub mod Digest
pub mod Faults
pub mod Known
pub mod ByDomain
