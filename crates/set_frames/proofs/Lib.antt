-- The proofs of `set_frames`. Assumes nothing.
pub mod Endings
pub mod Sound
pub mod Rows
pub mod Follow
