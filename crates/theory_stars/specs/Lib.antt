pub mod Corners
pub mod Round
pub mod EnoughAt
pub mod GrownStar
pub mod FrameStar
pub mod OnPolygon
pub mod Laws
