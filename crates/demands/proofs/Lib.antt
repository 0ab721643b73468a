-- Why the demands hold.
-- Numbers: the numbers by which each call's checks fail.
mod Numbers
pub mod Demand1
pub mod Demand2
-- Writing: what stands in the writer's output, and that every file that fits is taken.
pub mod Writing
-- Sent: the cells that packets name, and the repeats among them.
mod Sent
-- Heard: a list of packets as the receiver reads them.
mod Heard
pub mod Demand3
-- Plain: count 5, with nothing unsent.
pub mod Plain
-- Plans: a plan written, packed and heard.
pub mod Plans
-- Corollaries: few lost cells come back.
pub mod Corollaries
-- Differing: lists in which copies of a cell differ.
mod Differing
-- Wrong: the wrong programs.
pub mod Wrong
