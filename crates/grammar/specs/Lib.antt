pub mod Grammar
pub mod Parser
pub mod Depth
pub mod Expanded
pub mod Judging
pub mod Typed
pub mod Plan
pub mod Converted
