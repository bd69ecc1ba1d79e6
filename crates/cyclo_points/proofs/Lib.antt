mod Identities
mod QuadLaws
mod PairLaws
mod FourLaws
mod SixLaws
mod EightLaws
mod TenLaws
pub mod OrderLaws
pub mod Readings
pub mod Within
pub mod Sizes
mod PairSizes
mod FourTurns
mod SixTurns
mod EightTurns
mod TenTurns
mod Turns
pub mod Refusal
mod Dots
mod ProductSizes
mod ProductReadings
pub mod Reals
pub mod Shorts
mod Witnesses
pub mod ShortWitness
mod SignReadings
pub mod Divisors
mod RealProducts
pub mod CoordinateReadings
pub mod Undoing
mod Roots
mod Floors
mod ShortMultiples
mod Thetas
pub mod Coefficients
pub mod SamePoints
