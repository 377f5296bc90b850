pub mod Mending
