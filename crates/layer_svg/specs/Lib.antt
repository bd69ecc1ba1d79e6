pub mod Kept
pub mod Picture
pub mod Written
