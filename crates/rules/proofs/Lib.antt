pub mod Rules
pub mod TiedRules
pub mod TestLaws
pub mod Ruled
pub mod Failing
pub mod Numbers
pub mod Tied
pub mod Unready
