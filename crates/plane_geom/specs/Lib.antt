pub mod Laws
pub mod Products
pub mod Measured
pub mod Spots
