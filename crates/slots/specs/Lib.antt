pub mod Moves
pub mod Hashing
