-- What functions inside calls promise each other of flags. Within a call a flag may be the private mark 3, above every flag.
pub mod Marks
