-- The proofs of `set_walk`. Assumes nothing.
pub mod Evaluation
pub mod Steps
pub mod Picks
pub mod Order
pub mod Starts
pub mod Found
