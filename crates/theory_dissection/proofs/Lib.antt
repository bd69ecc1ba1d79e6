pub mod Setting
pub mod MovedStar
pub mod Ahead
mod Around
pub mod StarEdges
mod NoReturn
mod EitherWay
mod SameLengths
pub mod Injective
mod EquallyFar
mod PartChain
pub mod MirroredCuts
mod Frames
mod MeetMates
pub mod Opposite
mod AlongAlong
pub mod TraceAlong
pub mod Sums
mod EdgeSums
mod OneLevel
mod SupertileCount
pub mod ZeroOrOne
pub mod StarCount
pub mod CommonPoint
pub mod Apexes
pub mod Members
pub mod OnlyOne
pub mod RuleAddresses
pub mod AcrossTouches
pub mod Join
pub mod Positions
mod CommonPiece
mod Covering
pub mod BoundaryTrace
pub mod Carried
mod OneChild
pub mod Glue
pub mod GlueMotions
mod GlueMotion
pub mod Holder
pub mod Turns
