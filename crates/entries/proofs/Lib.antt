pub mod Branches
pub mod Bounds
pub mod Leads
