pub mod Sameness
pub mod Copying
