-- What a reader of the crate `answer` must believe.
pub mod Refusals
pub mod Values
