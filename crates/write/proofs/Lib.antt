-- Why the program `write` meets its contracts: what it prints (`Printed`), and what it reads and writes (`Writing`).
pub mod Printed
pub mod Writing
