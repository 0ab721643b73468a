-- What a reader of the crate `cube` must believe; and, in `Inner`, what its own functions promise each other.
pub mod Cube
pub mod Encoded
pub mod Theorems
pub mod Calls
pub mod Inner
