pub mod Senses
