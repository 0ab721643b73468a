-- What the crate's own functions promise each other.
pub mod Place
pub mod Walk
