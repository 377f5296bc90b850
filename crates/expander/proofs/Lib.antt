pub mod Spelled
pub mod Writing
pub mod Parting
pub mod Progress
