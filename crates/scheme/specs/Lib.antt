pub mod Together
pub mod SoldTogether
