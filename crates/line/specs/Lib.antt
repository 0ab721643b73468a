-- What a reader of the crate `line` must believe: Line, then Run. Inner is what its private functions owe one another.
pub mod Line
pub mod Run
pub mod Inner
