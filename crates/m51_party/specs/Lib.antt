pub mod Family
pub mod Rounds
pub mod Text
pub mod Laws
pub mod Seats
pub mod Report
pub mod Steps
