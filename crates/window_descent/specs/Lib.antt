pub mod Reach
pub mod Standing
pub mod Sides
pub mod Inside
pub mod Parts
pub mod Bounds
pub mod Rows
pub mod Climbing
