pub mod Causes
pub mod Edge
pub mod Held
pub mod Left
pub mod Mem
pub mod Plan
pub mod ReadingAll
pub mod Taken
