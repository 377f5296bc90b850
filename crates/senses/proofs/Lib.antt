pub mod Joined
pub mod Looking
pub mod Numbered
