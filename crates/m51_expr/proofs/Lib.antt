pub mod Ranking
pub mod Steps
pub mod Looser
pub mod Sound
pub mod Complete
pub mod ValueFaults
