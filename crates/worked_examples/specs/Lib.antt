pub mod Points
pub mod WholeIdentity
pub mod Whole
pub mod Story
pub mod Second
