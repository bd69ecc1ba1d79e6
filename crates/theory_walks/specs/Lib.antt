pub mod Frames
pub mod Boundary
pub mod Paths
pub mod Ancestors
pub mod Containing
