-- What a reader of the crate `shape` must believe; `Inner` is what functions inside calls promise each other.
pub mod Shapes
pub mod Flags
pub mod Inner
