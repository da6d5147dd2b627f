pub mod Md5
pub mod Example
