-- The laws of `heap`. Assumes nothing.
pub mod Turns
pub mod Unmoved
pub mod Frame
