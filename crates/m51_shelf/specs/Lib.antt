pub mod Writing
pub mod Shelf
pub mod States
pub mod Stored
pub mod Memory
pub mod Reading
