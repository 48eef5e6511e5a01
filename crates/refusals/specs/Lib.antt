pub mod Number
pub mod Told
pub mod First
pub mod Ladders
