pub mod Looking
pub mod Suffices
