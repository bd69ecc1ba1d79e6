pub mod Standing
pub mod Faults
pub mod Ancestors
pub mod Crossed
pub mod Contained
