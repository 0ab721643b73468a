-- The laws of stopping sets, over any family of lines and any set of cells, and over the lines of a cube.
-- how many members a set has: comparing, choosing and counting in blocks
pub mod Number
-- the ranks of data cells
pub mod Ranks
-- unions, the largest, peeling
pub mod Stopping
-- a cube's lines: 27 cells, a data cell
pub mod Cube
-- the largest of a list of lines, computed
pub mod Peeling
-- the cube's lines as a list
pub mod CubeLines
-- what document 01 says of them
pub mod Theorems
