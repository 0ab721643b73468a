-- Why the crate `solver` meets its contracts. Pick: a pick by a test of equality. Places: the place of a single error. Rows: the second row
-- of the inverted array.
pub mod Pick
pub mod Places
mod Rows
