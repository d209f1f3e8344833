-- The proofs of `substitution`. Assumes nothing.
pub mod Examples
pub mod Follow
pub mod Choices
pub mod Sound
pub mod Constants
