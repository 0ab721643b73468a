-- What the functions inside the crate `fill` promise each other, by module. A cell that a call has filled has the mark 3 until the call ends.
pub mod Verify
