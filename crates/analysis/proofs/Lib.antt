-- The laws of `analysis`. Assumes nothing.
pub mod Turns
pub mod Sound
