-- The proofs of `set_stage`. Assumes nothing.
pub mod Bounds
pub mod Rows
pub mod Starts
pub mod Splice
pub mod Laid
pub mod Resets
pub mod Follow
