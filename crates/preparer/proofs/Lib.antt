pub mod Preparing
pub mod Ready
