pub mod Walking
pub mod Nearing
pub mod Stepping
pub mod Answering
