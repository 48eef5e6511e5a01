pub mod Fronts
pub mod Lost
pub mod Gathered
