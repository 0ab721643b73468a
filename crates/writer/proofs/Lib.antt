-- Why the crate `writer` meets its contract: the file in the cube and the answer (`Outcomes`); that the contract leaves nothing open, and that every file
-- that fits is taken (`Taken`).
pub mod Outcomes
pub mod Taken
