pub mod Parts
pub mod Statements
pub mod Lines
pub mod Flags
pub mod Texts
pub mod Answer
