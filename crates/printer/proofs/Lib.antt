pub mod Literally
pub mod Wording
pub mod Lining
