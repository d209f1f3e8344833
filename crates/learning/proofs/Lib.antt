-- The laws of `learning`. Assumes nothing.
pub mod Turns
pub mod Calls
pub mod Keeps
pub mod Standing
pub mod Sound
