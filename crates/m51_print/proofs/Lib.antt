pub mod Columns
pub mod PlacedTitles
pub mod Ranges
pub mod Steps
