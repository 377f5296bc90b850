pub mod Labels
pub mod Past
pub mod Going
