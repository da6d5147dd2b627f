pub mod Bytes
pub mod Writing
pub mod Values
pub mod Wide
pub mod Parts
pub mod Written
pub mod Same
