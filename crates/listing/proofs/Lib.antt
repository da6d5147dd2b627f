pub mod PageLaws
pub mod TextLaws
pub mod ReadLaws
pub mod LineLaws
pub mod AnswerLaws
pub mod SizeLaws
pub mod RoundLaws
pub mod RunLaws
