pub mod Positions
pub mod Theorems
