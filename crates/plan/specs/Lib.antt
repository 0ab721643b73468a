-- What a reader of the crate `plan` must believe.
pub mod Calls
pub mod Receiving
pub mod Theorems
