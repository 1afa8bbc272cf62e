pub mod Laws
pub mod Line
pub mod Memory
pub mod Reading
pub mod Record
pub mod Writing
