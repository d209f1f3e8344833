-- The laws of `kept`. Assumes nothing.
pub mod Turns
pub mod Sound
