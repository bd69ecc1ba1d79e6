pub mod Group
pub mod Frames
pub mod Fitting
pub mod Grown
pub mod Outwards
pub mod Located
pub mod Contained
pub mod Carried
