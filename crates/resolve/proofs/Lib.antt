-- The laws of `resolve`. Assumes nothing.
pub mod Turns
pub mod Sound
