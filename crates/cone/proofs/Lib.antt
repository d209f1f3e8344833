-- The laws of cones and of the circuits that they make. Assumes nothing.
pub mod Cone
pub mod Gates
pub mod Circuit
pub mod Values
pub mod Folds
pub mod Stores
pub mod Marking
pub mod Numbering
pub mod Examples
