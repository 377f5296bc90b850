pub mod Contents
pub mod Changes
