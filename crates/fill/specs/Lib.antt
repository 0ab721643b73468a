-- What a reader of the crate `fill` must believe is `Fill`; `Theorems` is what document 01 says of it, proved; `Inner` is what its functions
-- promise each other.
pub mod Fill
pub mod Theorems
pub mod Inner
