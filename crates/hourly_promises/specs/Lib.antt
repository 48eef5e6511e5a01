pub mod Csv
pub mod Firsts
