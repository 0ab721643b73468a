-- What a reader of the crate `solver` must believe. Inner is what its private functions owe one another.
pub mod Solver
pub mod Inner
