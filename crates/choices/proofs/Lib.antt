-- The laws of `choices`. Assumes nothing.
pub mod Turns
pub mod Calls
pub mod Explained
pub mod Refuted
pub mod Sound
