-- What a reader of the crate `rows` must believe is `Rows`. Inner is what its private functions owe one another.
pub mod Rows
pub mod Inner
