pub mod Ascii
pub mod WholeText
pub mod Telling
pub mod Numbered
pub mod StatementRows
