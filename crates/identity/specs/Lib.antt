pub mod Features
pub mod Words
pub mod Page
pub mod Told
pub mod Read
pub mod Made
