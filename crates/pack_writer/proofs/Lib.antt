-- Why the crate `pack_writer` meets its contracts: parts laid one behind the other (`Laying`), the calls' checks and answers (`Outcomes`), and an air pack
-- part by part (`Starting`).
pub mod Laying
pub mod Rows
pub mod Outcomes
pub mod Starting
