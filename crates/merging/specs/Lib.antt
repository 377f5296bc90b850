pub mod Merge
pub mod Theorems
