pub mod Order
pub mod Compared
pub mod Fields
pub mod Classes
pub mod Switches
