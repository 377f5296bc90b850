pub mod Rewriting
pub mod Facts
pub mod Listing
pub mod Turns
