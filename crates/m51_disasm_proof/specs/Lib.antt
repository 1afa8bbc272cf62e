pub mod Meaning
pub mod Sound
pub mod Standing
pub mod Module
pub mod Laws
pub mod Places
