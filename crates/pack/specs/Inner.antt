-- What the functions of the crate `pack` promise each other, a file a module.
pub mod Packets
