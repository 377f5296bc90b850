pub mod Same
pub mod Initials
