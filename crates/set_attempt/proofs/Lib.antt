-- The proofs of `set_attempt`. Assumes nothing.
pub mod Frames
pub mod Begun
pub mod Sound
pub mod Bound
pub mod Stage
pub mod Bits
