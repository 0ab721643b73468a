-- What a reader of the crate `printing` must believe.
pub mod Text
pub mod Append
