pub mod Taken
pub mod Cells
