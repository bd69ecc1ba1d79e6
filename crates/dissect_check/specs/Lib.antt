pub mod FirstFault
pub mod Agrees
pub mod Views
pub mod Few
pub mod Boundary
pub mod Parts
pub mod Places
