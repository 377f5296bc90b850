pub mod Storing
pub mod Lowest
