-- Why the crate `erasures` meets its contracts.
-- Third: the count that ends at the third erasure, and the places it reads.
pub mod Third
-- Scanning: the missing cells of a line, place after place; what is found is determined.
pub mod Scanning
-- Inside: which lines are looked at; every line of a valid shape is.
pub mod Inside
-- Determined: the contract of `scan_line` leaves nothing open; what a caller of `scan` learns.
pub mod Determined
