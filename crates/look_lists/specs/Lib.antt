pub mod Looked
pub mod Theorems
