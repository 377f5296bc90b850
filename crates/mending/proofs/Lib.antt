pub mod Fields
pub mod Changes
pub mod Theorems
pub mod Examples
