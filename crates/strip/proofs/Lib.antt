-- Why the crate `strip` meets its contracts. Updated: a list written byte by byte.
pub mod Updated
