pub mod Parting
pub mod Copying
