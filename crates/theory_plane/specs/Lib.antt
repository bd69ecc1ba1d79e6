pub mod Plane
pub mod Crossing
pub mod Triangle
pub mod Segment
pub mod Box
pub mod BoxTest
pub mod Close
