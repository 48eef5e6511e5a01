pub mod Continuing
pub mod Plays
pub mod PlaysCode
pub mod Programs
pub mod Values
pub mod Tied
