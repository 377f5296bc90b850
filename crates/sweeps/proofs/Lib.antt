pub mod Laying
pub mod Going
pub mod Small
pub mod Lines
pub mod Blocks
