pub mod Faults
pub mod Limits
pub mod Records
pub mod Statuses
