-- What the functions inside the crate `peel` promise each other, by module.
pub mod Wake
pub mod Sweep
pub mod OnLine
