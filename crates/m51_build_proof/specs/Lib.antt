pub mod Laws
pub mod Layouts
pub mod Builds
pub mod Overlay
pub mod Headline
pub mod FromChain
pub mod Answers
