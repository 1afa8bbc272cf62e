pub mod Accepting
pub mod Answering
pub mod Following
pub mod LibraryLaws
