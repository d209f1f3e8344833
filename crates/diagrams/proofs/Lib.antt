-- The proofs of `diagrams`. Assumes nothing.
pub mod Values
pub mod View
pub mod Stores
pub mod Sound
pub mod Follow
pub mod Flips
pub mod Beginning
