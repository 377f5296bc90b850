pub mod Keeping
pub mod Listing
pub mod Storing
pub mod Wording
