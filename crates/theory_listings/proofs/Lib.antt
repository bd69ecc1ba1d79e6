pub mod Lines
mod Walk
pub mod FrameLines
mod FrameWalk
mod FrameLifted
mod Carried
