-- What a reader of the crate `demands` must believe: the user's three demands.
pub mod Ends
pub mod Placed
pub mod Demand1
pub mod Demand2
pub mod Demand3
pub mod Plans
pub mod Wrong
