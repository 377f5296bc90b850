pub mod Steps
pub mod Drawings
