-- What a reader of the crate `plan_form` must believe; and, in `Inner`, what its own functions promise each other.
pub mod Entries
pub mod Form
pub mod Theorems
pub mod Inner
