-- Why the crate `peel` meets its contracts.
-- Sizing: the lengths of cube and flags, by comparing.
pub mod Sizing
-- Lines: lines side by side, as a run of bytes, and those that miss the same places.
pub mod Lines
-- Reaching: peeling as a relation between two states.
pub mod Reaching
-- Together: neighbouring lines filled together are a step of peeling.
mod Together
-- Awake: which lines may have changed.
pub mod Awake
-- Visiting: lines visited, and groups of lines that need no visit.
mod Visiting
