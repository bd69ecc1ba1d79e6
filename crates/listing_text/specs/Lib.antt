pub mod Limits
pub mod Lines
pub mod Signed
pub mod Words
pub mod Listing
pub mod Views
pub mod Written
