pub mod Marking
pub mod Range
