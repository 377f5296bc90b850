pub mod Names
pub mod Reading
pub mod Faults
pub mod Texts
