pub mod Corners
pub mod Round
pub mod Causes
pub mod Sought
pub mod Found
pub mod StarLaws
