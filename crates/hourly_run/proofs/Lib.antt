pub mod Numerals
pub mod Cutting
pub mod Once
pub mod Owing
pub mod Printing
pub mod HexNumbers
pub mod Came
pub mod Tied
