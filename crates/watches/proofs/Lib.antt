-- The laws of `watches`. Assumes nothing.
pub mod Turns
pub mod Frame
