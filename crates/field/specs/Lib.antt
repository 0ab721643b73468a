-- What a reader of the crate `field` must believe.
pub mod Field
