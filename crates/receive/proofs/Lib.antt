-- Why the program `receive` meets its contracts: texts one behind the other (`Joining`), how long they are (`Lengths`), how a pack ends (`Endings`).
-- `Whole` shows that the pieces are the output, `Writing` that they are written, `Example` is the paper's output.
pub mod Joining
pub mod Lengths
pub mod Endings
pub mod Whole
pub mod Writing
pub mod Example
