pub mod Joining
pub mod Lining
pub mod Telling
