-- What the private functions of the crate owe one another, module by module.
pub mod Block
pub mod Blocks
pub mod Encoder
pub mod Wide
