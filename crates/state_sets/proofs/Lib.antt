-- The proofs of `state_sets`. Assumes nothing.
pub mod Room
pub mod Follow
pub mod Rows
pub mod Collections
pub mod Sound
