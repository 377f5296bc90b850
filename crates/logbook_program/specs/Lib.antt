pub mod Ruled
pub mod Worded
