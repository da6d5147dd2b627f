pub mod Aes
pub mod Schedule
pub mod Lanes
pub mod Inverse
pub mod Bounds
pub mod Vectors
