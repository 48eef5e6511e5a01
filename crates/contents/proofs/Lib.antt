pub mod Blanked
pub mod Veiled
pub mod Telling
pub mod Tied
