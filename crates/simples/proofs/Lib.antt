pub mod Looking
pub mod Classes
pub mod Resolving
