pub mod Masks
pub mod Tables
pub mod Picks
pub mod Littles
pub mod Fronts
pub mod Tying
pub mod Tied
