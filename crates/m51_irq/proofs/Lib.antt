pub mod Finding
pub mod ChoiceLaws
pub mod Levels
pub mod Kept
pub mod Taken
pub mod Holding
pub mod Disabled
