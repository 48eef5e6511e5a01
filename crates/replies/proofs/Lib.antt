pub mod Sending
pub mod Room
pub mod Fit
pub mod Fits
pub mod Repeats
pub mod Tied
