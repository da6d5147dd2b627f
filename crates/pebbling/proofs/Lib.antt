pub mod HashLaws
pub mod HeldLaws
pub mod ListLaws
pub mod PositionLaws
