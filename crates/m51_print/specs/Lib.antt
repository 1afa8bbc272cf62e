pub mod Lent
pub mod Lines
pub mod Listing
pub mod Map
pub mod Refusals
pub mod Stack
pub mod Summary
