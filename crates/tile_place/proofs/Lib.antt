pub mod Children
pub mod Values
pub mod Visits
pub mod Start
mod Finer
mod Descent
pub mod KindEdges
pub mod Plane
pub mod SamePoint
mod GreatestTurns
mod Rows
mod TurnedPlaces
mod Gluing
pub mod Ahead
pub mod Corners
pub mod Parts
pub mod FactorPowers
pub mod Holders
mod Below
pub mod Counted
pub mod Held
mod Located
pub mod EachOrder
pub mod KeyOrder
pub mod OneAcross
mod Beside
