pub mod Levels
pub mod Faults
pub mod OneEffect
pub mod OneRefusal
pub mod OneAnswer
pub mod Names
pub mod Related
pub mod Scripts
