pub mod Pieces
pub mod Places
pub mod Handing
pub mod Frames
