pub mod Shared
pub mod Addresses
pub mod Tiles
pub mod Outlines
pub mod Rules
pub mod Frames
pub mod Windows
pub mod Statuses
