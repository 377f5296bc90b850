pub mod Decoding
pub mod Keeping
pub mod Parting
pub mod Summing
