-- What only the program's own functions need, one file a module.
pub mod Memory
