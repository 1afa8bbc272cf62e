pub mod Files
pub mod Sources
pub mod Objects
pub mod Inputs
pub mod Sorting
pub mod Answered
pub mod Steps
pub mod Laws
