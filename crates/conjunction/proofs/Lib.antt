-- The laws of `conjunction`. Assumes nothing.
pub mod Sound
pub mod Follow
