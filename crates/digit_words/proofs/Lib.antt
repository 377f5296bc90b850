pub mod OrderLaws
pub mod FieldLaws
pub mod AskedLaws
pub mod Outcomes
