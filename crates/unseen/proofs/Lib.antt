pub mod Sequences
pub mod Lengths
pub mod Lines
pub mod Tied
