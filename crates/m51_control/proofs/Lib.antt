pub mod Numbered
pub mod Runs
pub mod CutLaws
pub mod PartLaws
pub mod NameLaws
pub mod ReserveLaws
pub mod FormLaws
pub mod LineLaws
