-- What a reader of the crate `stopping` must believe.
pub mod Stopping
-- and what document 01 says of these definitions, proved
pub mod Theorems
