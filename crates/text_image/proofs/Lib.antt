mod First
mod Writing
mod Standing
mod Told
