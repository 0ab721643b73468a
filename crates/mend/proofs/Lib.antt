-- Why the crate `mend` meets its contracts, and what mending does.
-- what the checks of a call say where they pass, and their numbers
pub mod Checks
-- the ways out of each call
mod Outcomes
-- a pass, run by run
pub mod Correction
-- the pass by axis 1 from one cube into another, row by row
pub mod Rows
-- a pass determines every byte, keeps a code cube, restores a line with one wrong byte
pub mod Mending
-- what damage mending undoes: seven bytes a layer, and more
pub mod Damage
