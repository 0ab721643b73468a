-- What a reader of the crate `strip` must believe.
pub mod Strip
