pub mod Members
mod PairedSums
mod Avoiding
mod LevelCrossing
mod EdgeHeights
mod UprightCrossing
pub mod Reverses
mod EdgeCounts
pub mod ClosedChains
pub mod Multiples
mod MixedPoint
mod FanEdges
pub mod Meeting
mod OneOwner
mod CutEdges
mod Gluing
pub mod EdgeNumbers
pub mod CoveredBox
pub mod Window
mod WholeTiles
mod OpenEdges
mod OpenTest
pub mod EnoughDepth
mod OpenFacts
mod Steps
mod Finish
mod EveryEdge
mod Limits
mod FromLevel
pub mod AnyOrder
mod OpenNumbers
mod OpenStep
mod WholeSearch
mod GrownPolygon
mod Level
pub mod Places
mod DistinctTiles
pub mod KindEdges
pub mod MovedTiles
mod MeetingParts
pub mod BoundaryMeets
pub mod FramePatch
pub mod Lifts
pub mod FrameEdges
pub mod FramePolygon
pub mod Renamed
pub mod GrownCrossings
mod GluedInFrame
mod FrameHolds
pub mod FrameDrawn
pub mod FrameWindow
mod FrameStart
mod FrameCover
mod Carried
pub mod CarriedFrames
