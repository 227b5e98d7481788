mod Faults
mod Found
mod Pairs
mod WordBits
