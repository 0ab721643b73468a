-- Why the crate `pack` meets its contracts: what was read (`Sound`), the numbers of refusals (`Numbers`), packets that name a cell (`Naming`), the cells that are sent (`Sent`);
-- and the laws of its layout: a pack is read as what it was made of (`Written`), with its packets as they stand in it (`Standing`), the data string of a file
-- (`DataStrings`), and an air pack as its packets (`AirPacks`).
pub mod Sound
pub mod Numbers
pub mod Sent
pub mod Naming
pub mod Written
pub mod Standing
pub mod DataStrings
pub mod AirPacks
