-- What a reader of the crate `examples` must believe.
-- document 01's starred examples
pub mod Examples
-- the wrong programs that it names
pub mod Wrong
-- sentences that an example proves
pub mod Theorems
