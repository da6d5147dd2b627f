pub mod Fits
pub mod Promises
pub mod Word
