-- What only the crate's own functions promise each other, one file a module.
pub mod Numbers
pub mod Lines
pub mod Scan
pub mod Reader
