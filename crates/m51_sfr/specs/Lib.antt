pub mod Manual
pub mod Registers
pub mod Coded
pub mod Laws
