pub mod ReadLaws
pub mod StartLaws
pub mod TurnLaws
