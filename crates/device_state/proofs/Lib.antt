pub mod Storing
pub mod TableLaws
pub mod Walk
pub mod Sets
pub mod Clearing
pub mod EchoLaws
pub mod Tied
