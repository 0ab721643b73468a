-- What a reader of the crate `jibrufath` must believe.
pub mod Exports
pub mod Lines
pub mod Packs
pub mod Plans
pub mod Needs
