-- The laws of shapes: their checks, their sizes, their axes, cells and lines, tests of every flag, the flag of a cell, and marks.
pub mod Valid
pub mod Bounds
pub mod Axes
pub mod Geometry
pub mod Scan
pub mod Missing
pub mod Marks
