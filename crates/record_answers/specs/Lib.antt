pub mod Merging
pub mod Sweeping
