-- What the private functions of the crate owe one another.
pub mod Solver
