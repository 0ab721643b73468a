-- What a reader of the crate `mend` must believe.
pub mod Mend
-- and what request P6 says of it, proved
pub mod Theorems
