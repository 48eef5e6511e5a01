pub mod Sequences
pub mod Lines
