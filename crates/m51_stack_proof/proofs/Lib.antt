pub mod Meeting
mod Steps
pub mod Bounded
