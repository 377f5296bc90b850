pub mod Tests
pub mod Typing
pub mod Shape
