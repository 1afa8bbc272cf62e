pub mod Layouts
pub mod OneUnit
pub mod Sample
pub mod Taken
