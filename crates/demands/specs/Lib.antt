pub mod Unchanged
pub mod Front
pub mod CardBehind
pub mod PostBehind
pub mod Calls
