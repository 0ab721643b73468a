-- Why the crate `rows` meets its contracts. Moving: rows and lines of runs that are moved. Horner: the syndromes of 64 gathered lines.
mod Moving
mod Horner
