pub mod Requested
pub mod Tilings
pub mod Formats
pub mod Covering
pub mod Gluing
pub mod Outlines
pub mod Pictured
mod Prototiles
mod GluedKinds
mod Placed
mod Frames
mod Walking
mod Turned
mod SameAddress
mod OnePath
mod Verdicts
mod OneAnswer
pub mod Answered
mod SameTexts
mod ClassCounts
mod Places
pub mod Handing
pub mod Headline
pub mod Drilled
pub mod Lines
pub mod Named
pub mod Once
pub mod Tiles
pub mod Windows
pub mod Unrefused
pub mod FileRead
pub mod Chosen
pub mod Read
pub mod Own
pub mod TextAnswer
pub mod PlacedByName
