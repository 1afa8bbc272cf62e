pub mod Asking
pub mod Copied
