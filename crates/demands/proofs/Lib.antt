pub mod Unchanged
pub mod Passed
pub mod CardBehind
pub mod PostRead
pub mod PostBehind
pub mod PostOffers
pub mod Calls
