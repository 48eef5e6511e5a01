pub mod Counts
pub mod Rows
pub mod Shown
