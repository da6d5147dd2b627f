pub mod Copying
pub mod Growing
pub mod Halves
pub mod Moving
pub mod OwnRound
pub mod SideBySide
