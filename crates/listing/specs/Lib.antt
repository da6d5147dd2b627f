pub mod Text
pub mod Listing
pub mod Lines
pub mod Example
pub mod Steps
