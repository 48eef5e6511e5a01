pub mod Points
pub mod Whole
pub mod Story
pub mod Second
