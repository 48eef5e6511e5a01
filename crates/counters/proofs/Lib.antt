pub mod CountLaws
pub mod RowLaws
pub mod Tied
