pub mod Laying
pub mod Standing
pub mod Trip
pub mod Made
pub mod Exactly
pub mod ToldLaws
pub mod Tied
