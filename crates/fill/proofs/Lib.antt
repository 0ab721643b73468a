-- Why the crate `fill` meets its contracts.
-- Clearing: cells made 00h one after the other.
mod Clearing
-- Marks: the count of missing cells as marks become 0.
mod Marks
-- Lines: a line of the cube as a run of bytes, whether it is right, and what holds of every line of an axis.
mod Lines
-- Checks: the checks 1 to 5, by what each of them finds, and their numbers.
pub mod Checks
-- Flagged: the flags after a filling are valid, and the cells left determine them.
pub mod Flagged
-- Outcome: what the steps of a call add up to.
mod Outcome
-- Unique: there is at most one filling, the contract of `fill` determines answer, cube and flags, and bytes of missing cells do not matter.
pub mod Unique
-- Recovery: a code cube with erasures comes back, and how many cells can be left.
pub mod Recovery
-- Whole: a cube with no cell missing.
mod Whole
-- Theorems: what document 01 says of filling.
pub mod Theorems
