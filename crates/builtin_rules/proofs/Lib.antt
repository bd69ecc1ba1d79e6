mod Acceptance
mod Evaluated
mod Numbered
pub mod Constants
mod Admitted
mod Lists
mod Placeable
