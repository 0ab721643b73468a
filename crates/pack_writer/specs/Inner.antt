-- What the functions of the crate `pack_writer` promise each other, a file a module.
pub mod Writing
