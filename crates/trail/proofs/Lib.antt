-- The laws of `trail`. Assumes nothing.
pub mod Turns
pub mod Frame
