pub mod CornerNumbers
pub mod Turning
mod ScaledPatch
mod SmallBox
mod WholeTurn
pub mod GrownStar
mod SharedPoint
mod SimpleStar
mod MovedStar
mod SimpleFrame
mod FrameStar
mod FrameBase
mod ScaledPoints
mod PolygonEdges
mod Carried
