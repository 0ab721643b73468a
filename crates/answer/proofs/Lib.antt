-- Why the crate `answer` meets its contracts, and the laws of values.
pub mod Tuples
pub mod Values
