mod Extents
mod Insets
mod MeetingTest
pub mod Parts
pub mod Descent
mod Climb
pub mod Carried
