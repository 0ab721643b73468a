-- What a reader of the crate `pack` must believe; and, in `Inner`, what its own functions promise each other.
pub mod Packs
pub mod Reading
pub mod Packets
pub mod Inner
