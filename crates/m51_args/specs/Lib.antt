pub mod Asks
pub mod Commands
pub mod Operations
pub mod Jobs
