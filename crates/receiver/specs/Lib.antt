-- What a reader of the crate `receiver` must believe, in document 01's order; and, in `Inner`, what its own functions promise each other.
pub mod Placing
pub mod Gathering
pub mod Opening
pub mod Receive
pub mod Theorems
pub mod Inner
