-- Why the crate `jibrufath` meets its contracts: words (`Words`), what comes with a number (`Places`), the receiver's endings as words
-- (`Endings`), and sizes and what the calls on texts and plans name fit a word (`SizeBounds`, `TextBounds`, `PlanBounds`). `Told` shows that a word tells its value.
pub mod Words
pub mod Told
pub mod Places
pub mod Endings
pub mod SizeBounds
pub mod TextBounds
pub mod PlanBounds
