-- Why the crate `line` meets its contracts. First the laws of lines, over the reduction byte and the length, which crates above use.
-- Syndrome: linearity, Horner's rule, one place changed. Codeword: linearity and weight.
-- Erasure: the completed line, and the line with its parity. Geometry: where the bytes of a run stand. Runs: completed lines in a list
-- of bytes. Error: the corrected line.
pub mod Syndrome
pub mod Codeword
pub mod Erasure
pub mod Geometry
pub mod Runs
pub mod Error
-- Then what the functions' proofs share. TwoStrips: lists written byte by byte. Tails: Horner's rule for lines side by side.
-- Zeros: all syndromes 0. Rows: erasures with their row. Parts: a run block by block. Solving, Correction and Encoding: a block's erasures,
-- its errors, its parity.
mod TwoStrips
pub mod Tails
mod Zeros
mod Rows
mod Parts
mod Blocks
mod Solving
mod Correction
mod Encoding
