mod Rows
pub mod RowLaws
pub mod ByteLaws
pub mod NameLaws
