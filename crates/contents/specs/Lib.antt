pub mod Veil
pub mod Told
pub mod Unseen
