pub mod Sweep
pub mod Parts
