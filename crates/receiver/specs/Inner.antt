-- What the internal functions of the crate `receiver` promise each other, module by module.
pub mod Gathering
pub mod Placing
