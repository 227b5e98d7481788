mod Finding
mod Putting
mod Pairing
mod Adding
mod Filtering
