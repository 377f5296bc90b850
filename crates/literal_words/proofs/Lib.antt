pub mod Contents
pub mod Numerals
pub mod Holding
