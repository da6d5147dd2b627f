pub mod StepLaws
pub mod WriteLaws
pub mod OfferLaws
