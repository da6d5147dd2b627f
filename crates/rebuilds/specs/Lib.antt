pub mod Rebuilt
pub mod Ticks
