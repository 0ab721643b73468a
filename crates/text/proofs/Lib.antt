-- Why the crate `text` meets its contracts: what stands at a place of a text (`Standing`), the digits of numbers (`Decimals`) and reading
-- them (`Reading`), bytes as hexadecimal digits (`Hexadecimal`), how the kinds of their characters are compared (`Differences`), the parts of a line put together (`Parts`), the first turn over a text
-- (`FirstTurn`), what a second turn finds (`SecondTurn`) and makes of it (`Decoding`); the theorems on texts alone, one reading
-- (`Unique`), lines counted (`Newlines`); and that packs and texts make each other (`RoundTrip`, with the writer's checks in `Fitting`).
pub mod Standing
pub mod Decimals
pub mod Reading
pub mod Hexadecimal
pub mod Differences
pub mod Parts
pub mod FirstTurn
pub mod SecondTurn
pub mod Decoding
pub mod Unique
pub mod Newlines
pub mod Fitting
pub mod RoundTrip
