-- What a reader of the program `receive` must believe: what there is to print for an input (`Outcomes`), its text (`Printed`), the pieces
-- in which it is written (`Pieces`), and what the program does to a reader and a writer (`Writes`). `Inner` is for the private functions only.
pub mod Outcomes
pub mod Printed
pub mod Pieces
pub mod Writes
pub mod Inner
