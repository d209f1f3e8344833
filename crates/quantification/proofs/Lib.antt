-- The proofs of `quantification`. Assumes nothing.
pub mod Examples
pub mod Follow
pub mod Reach
pub mod Sound
