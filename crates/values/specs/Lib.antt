pub mod Comparison
pub mod Names
pub mod Truth
