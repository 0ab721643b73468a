-- Why document 01's starred examples hold, and the wrong outcomes do not: of each kind a test that computes, which answers true only where the claim holds.
-- what is tried at every number below n, and at every line of a cube; code cubes and data strings: the kind `encodes`
pub mod Tests
-- filling: the kinds `fills` and `leaves`
pub mod Filling
-- mending: the kinds `mends` and `no_place`
pub mod Mending
-- the theorem: every example of the list holds
pub mod Hold
-- no wrong outcome of document 01 is allowed
pub mod Wrong
-- sentences that an example proves
pub mod Theorems
