pub mod Continued
pub mod Playing
pub mod Program
