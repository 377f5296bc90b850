pub mod Writing
pub mod Meeting
pub mod Adding
pub mod Ending
