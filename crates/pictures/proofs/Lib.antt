pub mod Saturates
pub mod Caps
