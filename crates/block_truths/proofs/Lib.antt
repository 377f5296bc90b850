pub mod Bases
pub mod Firsts
pub mod Passing
pub mod Rights
pub mod Sides
