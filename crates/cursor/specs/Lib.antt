-- What a reader of the crate `cursor` must believe.
pub mod Steps
