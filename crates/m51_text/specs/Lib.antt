pub mod Said
pub mod Text
pub mod Faults
pub mod Answer
pub mod Laws
pub mod Entries
pub mod Reading
pub mod Rows
