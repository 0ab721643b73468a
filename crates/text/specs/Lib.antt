-- What a reader of the crate `text` must believe; and, in `Inner`, what its own functions promise each other.
pub mod Form
pub mod Text
pub mod Theorems
pub mod Inner
