-- Why the crate `plan` meets its contracts: entries at the start of a list, and sections one behind the other (`Beginning`), a file and its sections
-- (`Sections`), from what the calls below answer to the outcomes of the calls on plans (`Answers`) and of receiving one (`Passing`); and why its
-- theorems hold: the writer and the reader undo each other (`RoundTrip`), no plan is shown where a place is left (`NoneLeft`), the contracts determine
-- answers and lists (`Determined`), and there is a plan to write (`Example`).
pub mod Beginning
pub mod Sections
pub mod Answers
pub mod Passing
pub mod RoundTrip
pub mod NoneLeft
pub mod Determined
pub mod Example
