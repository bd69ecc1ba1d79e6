pub mod Lines
pub mod Walk
pub mod RightList
pub mod Theorem
pub mod FrameListing
pub mod FrameWalk
pub mod FrameLifted
pub mod Laws
