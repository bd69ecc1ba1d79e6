mod Standings
mod Insides
mod EdgeTests
mod Placings
pub mod RowsMade
mod Limits
mod PartBounds
