mod Carried
mod Climbs
mod Falls
mod DigitFalls
mod FlatCounts
mod FlatEntries
mod FlatLooks
mod FlatMade
mod Halfway
mod Onward
mod Joining
mod CountsRead
mod Keeping
mod RowKept
mod Once
mod Rising
mod Standing
mod Strides
pub mod OneOutside
pub mod HandedOn
mod KindCells
pub mod Refilled
