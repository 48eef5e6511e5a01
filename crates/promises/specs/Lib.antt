pub mod Contradicts
pub mod Questions
pub mod TurnedDown
pub mod DueTold
