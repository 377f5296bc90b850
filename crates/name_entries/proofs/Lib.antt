pub mod Sparing
pub mod Holding
pub mod Going
