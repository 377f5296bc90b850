pub mod OneItem
pub mod Rows
pub mod Accepted
pub mod Exchanging
