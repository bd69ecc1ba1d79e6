pub mod Views
pub mod Tiling
pub mod Small
pub mod Accepted
pub mod Usable
pub mod Glue
pub mod Checked
