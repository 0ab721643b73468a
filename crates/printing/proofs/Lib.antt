-- Why the crate `printing` meets its contracts: text behind text (`Appending`), and numbers as digits (`Numerals`).
pub mod Appending
pub mod Numerals
