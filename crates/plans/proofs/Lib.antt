pub mod Retarget
pub mod Buffer
