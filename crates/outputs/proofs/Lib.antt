pub mod Copying
pub mod Noting
