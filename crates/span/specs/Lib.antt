-- What a reader of the crate `span` must believe.
pub mod Decision
pub mod Span
