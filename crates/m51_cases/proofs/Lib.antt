pub mod Counted
mod OneUnitSound
mod SampleLayout
mod SampleModule
mod SamplePublic
pub mod Sound
pub mod SoundTests
pub mod ThreeRoots
