pub mod Laying
pub mod Capping
