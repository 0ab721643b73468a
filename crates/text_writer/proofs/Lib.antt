-- Why the crate `text_writer` meets its contracts: the lines of a text one behind the other, and their lengths (`TextLines`).
pub mod TextLines
