pub mod Lists
pub mod Plans
pub mod Stores
pub mod Words
