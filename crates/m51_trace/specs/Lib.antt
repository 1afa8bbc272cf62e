pub mod Requests
pub mod Traces
