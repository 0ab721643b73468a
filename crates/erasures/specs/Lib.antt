-- What a reader of the crate `erasures` must believe.
pub mod Scan
pub mod Theorems
pub mod Erasures
