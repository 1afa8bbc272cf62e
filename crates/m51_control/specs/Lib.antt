pub mod Parts
pub mod Naming
pub mod Reserve
pub mod Grammar
pub mod Classes
pub mod Controls
pub mod Written
