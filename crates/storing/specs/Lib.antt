pub mod Naming
pub mod Reads
