-- Why the crate `plan_form` meets its contracts: numbers of four and two bytes (`Halves`), which parts are sound (`Soundness`), what closures and
-- fibres that keep their rules give (`Ascending`), the walks through them (`Walking`), the marks of joined fibres (`Joined`), how few entries a plan
-- can have (`Few`) and how low a broken one stands (`Offsets`), what the first entry that breaks its rule makes of the plan (`Judging`), of a file
-- (`InFile`) and of lists (`InLists`). Besides: plans with the same counts and bytes are in the form together (`Agreeing`), a plan is broken at
-- one byte (`OnePlace`), and there is one (`Example`).
pub mod Halves
pub mod Soundness
pub mod Ascending
pub mod Walking
pub mod Joined
pub mod Few
pub mod Judging
pub mod InFile
pub mod InLists
pub mod Offsets
pub mod Agreeing
pub mod OnePlace
pub mod Example
