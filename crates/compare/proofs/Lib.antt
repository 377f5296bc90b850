pub mod FilledLaws
pub mod OrderLaws
