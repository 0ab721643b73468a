-- What a reader of the crate `data` must believe; and, in `Inner`, what its own functions promise each other.
pub mod Tables
pub mod Data
pub mod Theorems
pub mod Calls
pub mod Inner
