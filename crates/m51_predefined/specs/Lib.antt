pub mod Predefined
pub mod Laws
