pub mod Pick
pub mod Answer
pub mod Bit
pub mod Contract
pub mod Little
pub mod Laid
