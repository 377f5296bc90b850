pub mod Naming
pub mod Ruling
