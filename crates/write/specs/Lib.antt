-- What a reader of the program `write` must believe: what it prints for an input (`Prints`), and what it does to a reader and a writer (`Writes`).
pub mod Prints
pub mod Writes
