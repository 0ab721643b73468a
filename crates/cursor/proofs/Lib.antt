-- Why the crate `cursor` meets its contracts, and what a count or a section that was read tells its callers.
pub mod Steps
