-- The laws of `records`. Assumes nothing.
pub mod Turns
pub mod Words
pub mod Moves
