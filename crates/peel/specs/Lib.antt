-- What a reader of the crate `peel` must believe is `Peel`; `Inner` is what its functions promise each other.
pub mod Peel
pub mod Inner
