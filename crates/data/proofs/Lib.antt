-- Why the crate `data` meets its contracts: where the bytes of the data string stand in a cube, and that the reader and the writer take them in turn.
pub mod Checks
pub mod Tables
pub mod Cells
pub mod HeldData
pub mod Placing
pub mod Reading
pub mod Writing
pub mod Outcomes
