mod Heads
mod Keeping
mod Vertices
mod Writing
