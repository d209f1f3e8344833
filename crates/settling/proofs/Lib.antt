-- The laws of `settling`. Assumes nothing.
pub mod Turns
pub mod Sound
