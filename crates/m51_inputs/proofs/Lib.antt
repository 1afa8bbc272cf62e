pub mod FileLists
pub mod AnswerLists
pub mod LinkedLists
pub mod OneEach
pub mod SortedFiles
pub mod ToldInputs
