pub mod Stepping
pub mod Tokens
