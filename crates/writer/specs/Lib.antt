-- What a reader of the crate `writer` must believe.
pub mod Write
