pub mod BitLaws
pub mod PassedOn
