pub mod Progress
pub mod Stored
pub mod Range
pub mod Contradictory
pub mod State
pub mod Table
pub mod UnderWay
