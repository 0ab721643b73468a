-- The laws of the crate.
-- Decision: answers that decide a statement, and calls that do their work where one holds.
pub mod Decision
-- Parts: a span as the list that it is.
mod Parts
-- Keeping: bytes outside a span are kept, through one change or several.
pub mod Keeping
-- Writing: one more byte of a span is written, whatever the bytes are to be.
mod Writing
-- Copying: more bytes copied, one at a time or a piece at a time.
pub mod Copying
-- Setting: bytes set to one value, up to a whole slice.
pub mod Setting
-- Putting: a list written at a place, one list behind another.
pub mod Putting
-- Made: an array made from a function of the place.
pub mod Made
-- Joining: bytes joined by or are 00h exactly when each is.
pub mod Joining
-- Differing: spans that do not agree differ at a byte.
pub mod Differing
-- Stretches: for whoever cuts a slice into spans of one length.
pub mod Stretches
