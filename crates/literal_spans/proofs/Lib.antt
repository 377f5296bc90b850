pub mod Shapes
pub mod Going
