-- The laws of the crate.
-- Clash: a small law of answers.
mod Clash
-- Copies: the copies of a cell, and where all are equal.
pub mod Copies
-- Arrivals: the cube and flags as packets are placed.
pub mod Arrivals
-- Beginning: what stands before any packet is placed.
mod Beginning
-- HeldFile: the file that a data string holds, opened.
mod HeldFile
-- Outcomes: what a pack that passes its checks gives, and the answers.
pub mod Outcomes
-- Determined: the contract determines answer, counts and memory.
pub mod Determined
-- Corners: 27 cells that are always sent and form a stopping set.
mod Corners
-- NoPackets: a pack without packets leaves the largest stopping set of sent cells.
pub mod NoPackets
