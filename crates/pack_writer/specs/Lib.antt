-- What a reader of the crate `pack_writer` must believe; and, in `Inner`, what its own functions promise each other.
pub mod Writing
pub mod Inner
